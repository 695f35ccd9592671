pub mod Cutting
pub mod Items
pub mod Pasting
pub mod Limits
pub mod Back
pub mod One
