pub mod Found
pub mod Need
