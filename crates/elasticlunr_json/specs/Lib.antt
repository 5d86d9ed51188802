pub mod Maps
pub mod EqualMaps
pub mod Tokens
pub mod Refused
pub mod Texts
