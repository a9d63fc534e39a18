pub mod Queues
pub mod Counted
