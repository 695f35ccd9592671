pub mod Inverse
pub mod Inside
pub mod Right
pub mod Kept
