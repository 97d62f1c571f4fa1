mod Accepting
pub mod Fineness
mod Flags
pub mod Once
mod Lefts
mod Placing
mod Repeats
mod Turns
