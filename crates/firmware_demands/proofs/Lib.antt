pub mod Promised
pub mod Inside
pub mod Away
pub mod Stands
pub mod OfCalled
pub mod OfExported
pub mod OfRead
pub mod OfDamage
