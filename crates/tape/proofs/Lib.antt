pub mod Tags
pub mod Items
pub mod Forms
pub mod Tapes
pub mod Writes
pub mod Window
