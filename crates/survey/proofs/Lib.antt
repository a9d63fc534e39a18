pub mod Coming
pub mod Tallied
pub mod Walk
pub mod Able
pub mod Alike
