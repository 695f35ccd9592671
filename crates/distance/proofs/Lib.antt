pub mod Leading
pub mod Powers
pub mod Block
pub mod Flipped
pub mod Seen
pub mod Sharp
pub mod LetIn
