pub mod Carrying
pub mod Fulfilling
