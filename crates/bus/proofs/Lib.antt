pub mod Outcomes
pub mod Passing
pub mod One
