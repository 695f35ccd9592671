pub mod Hearing
pub mod Size
pub mod Judge
