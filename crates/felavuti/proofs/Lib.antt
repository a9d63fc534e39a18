pub mod Beginning
pub mod Refilling
