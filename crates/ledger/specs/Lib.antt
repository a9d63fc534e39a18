pub mod Stock
pub mod Desk
pub mod Doors
