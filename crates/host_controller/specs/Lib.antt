pub mod Settings
pub mod Groups
