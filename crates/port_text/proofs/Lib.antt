pub mod Frames
pub mod Mapped
pub mod Ports
pub mod Back
pub mod One
