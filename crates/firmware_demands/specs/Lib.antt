pub mod Clauses
pub mod Called
pub mod Exported
