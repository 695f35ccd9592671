pub mod BitTime
pub mod Roll
pub mod Jump
pub mod Within
