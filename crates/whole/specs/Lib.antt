pub mod Whole
pub mod Spare
