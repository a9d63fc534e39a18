pub mod Outcomes
pub mod History
pub mod Exports
