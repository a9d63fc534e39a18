pub mod Numbers
pub mod Fronts
