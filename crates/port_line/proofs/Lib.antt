pub mod Hosting
pub mod OneStep
