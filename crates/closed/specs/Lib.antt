pub mod Check
pub mod Judgement
