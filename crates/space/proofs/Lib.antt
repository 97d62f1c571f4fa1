pub mod Paths
pub mod Counting
pub mod ClosedSets
pub mod Fronts
pub mod Least
