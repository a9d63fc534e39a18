pub mod Deciding
pub mod Judging
