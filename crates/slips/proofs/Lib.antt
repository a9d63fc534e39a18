pub mod Writing
pub mod Slips
