pub mod Meaning
pub mod Paths
pub mod Rows
