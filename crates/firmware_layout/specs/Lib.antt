pub mod Flags
pub mod Controller
pub mod Hearing
pub mod Kept
