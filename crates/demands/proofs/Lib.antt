pub mod OneAnswer
pub mod OfCall
pub mod OfCode
pub mod Again
pub mod OfDamage
pub mod Bridge
