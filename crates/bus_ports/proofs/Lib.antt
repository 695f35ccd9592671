pub mod Ports
pub mod One
