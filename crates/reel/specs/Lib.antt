pub mod Reel
