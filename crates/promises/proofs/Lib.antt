pub mod Answers
pub mod Performed
pub mod Placement
pub mod Outcomes
pub mod History
pub mod Numbers
pub mod Exports
