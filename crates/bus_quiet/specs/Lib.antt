pub mod Quiet
pub mod Resting
pub mod Jump
pub mod Phase
