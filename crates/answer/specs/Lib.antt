pub mod Planned
pub mod Reports
