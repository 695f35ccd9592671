pub mod Flips
pub mod Numbers
