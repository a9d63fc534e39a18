pub mod Day
pub mod Refusals
