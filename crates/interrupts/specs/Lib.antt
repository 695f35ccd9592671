pub mod Names
pub mod Group
pub mod Calls
pub mod Shape
