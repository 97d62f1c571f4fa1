pub mod Grammar
pub mod Checked
pub mod Coming
