pub mod Theorems
pub mod Highest
pub mod Bits
pub mod Listed
