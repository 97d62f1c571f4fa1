mod Breaks
pub mod Judgement
