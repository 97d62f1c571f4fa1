pub mod Directions
pub mod Questions
pub mod Planning
pub mod Agreement
