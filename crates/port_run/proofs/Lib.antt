pub mod Lines
pub mod Fed
pub mod Leaving
pub mod Parts
pub mod One
