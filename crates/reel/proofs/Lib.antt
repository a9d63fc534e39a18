pub mod Testing
pub mod Along
pub mod Refills
