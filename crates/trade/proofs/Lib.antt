pub mod Leaving
pub mod Trading
