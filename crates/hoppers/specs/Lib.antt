pub mod Levels
pub mod Moves
pub mod Setting
