pub mod Fields
pub mod Lists
pub mod Exits
pub mod Parts
