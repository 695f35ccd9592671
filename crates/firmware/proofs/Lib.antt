pub mod Short
pub mod Through
pub mod Before
pub mod Handed
pub mod One
