pub mod Numbers
pub mod Reports
