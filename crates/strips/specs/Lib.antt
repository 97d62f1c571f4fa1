pub mod Sets
pub mod Actions
pub mod Tasks
pub mod Duality
pub mod Views
