pub mod Marks
pub mod Cut
pub mod Read
pub mod Write
