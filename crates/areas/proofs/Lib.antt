pub mod One
pub mod Words
