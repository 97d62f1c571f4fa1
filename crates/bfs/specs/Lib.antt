pub mod Tables
pub mod Answers
pub mod Exactness
pub mod Progress
