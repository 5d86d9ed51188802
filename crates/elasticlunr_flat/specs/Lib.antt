pub mod Flat
pub mod Reading
pub mod Told
pub mod OneWay
