pub mod Grid
pub mod Reading
pub mod Shape
pub mod Left
pub mod Actions
pub mod Repeats
pub mod Sheets
pub mod Exactness
