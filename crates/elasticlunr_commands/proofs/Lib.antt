pub mod Adding
pub mod Agreeing
pub mod Naming
pub mod OneZip
pub mod Same
