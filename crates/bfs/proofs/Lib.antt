mod Stages
mod Ends
mod Turns
mod Trails
mod Handing
pub mod Exactness
