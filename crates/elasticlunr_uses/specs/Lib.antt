pub mod Sharing
pub mod Pages
pub mod Found
pub mod Stops
pub mod Titles
