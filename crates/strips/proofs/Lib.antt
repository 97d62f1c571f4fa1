pub mod Words
pub mod Laws
pub mod Regression
pub mod Dual
