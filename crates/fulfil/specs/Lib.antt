pub mod Stock
pub mod Fulfils
