pub mod Printed
pub mod Fed
