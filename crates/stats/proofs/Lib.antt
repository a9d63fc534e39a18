pub mod Readings
pub mod Recording
