pub mod Punched
