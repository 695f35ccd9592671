pub mod Promise
pub mod One
