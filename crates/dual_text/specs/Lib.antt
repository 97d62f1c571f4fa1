pub mod Written
pub mod Texts
pub mod Dual
pub mod Turned
