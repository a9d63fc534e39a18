pub mod Times
pub mod Ring
pub mod Links
pub mod Free
