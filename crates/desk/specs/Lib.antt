pub mod Stock
pub mod Performs
pub mod Steps
