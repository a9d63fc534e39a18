pub mod Queues
pub mod Sides
pub mod Levels
pub mod Totals
pub mod Prices
pub mod Looking
pub mod Desk
