pub mod Levels
pub mod Prices
pub mod Stored
pub mod Read
pub mod Doors
pub mod Orders
