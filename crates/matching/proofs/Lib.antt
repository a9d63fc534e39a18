pub mod Quantities
pub mod Lowered
pub mod Giving
pub mod Passing
pub mod Carrying
pub mod Kept
