pub mod Taker
pub mod Makers
pub mod Surveyed
