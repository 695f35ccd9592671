pub mod Check
pub mod Frame
pub mod Remainder
pub mod Steps
pub mod Joined
