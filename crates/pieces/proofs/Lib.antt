pub mod Splits
pub mod Walk
