pub mod Thinned
pub mod Carried
