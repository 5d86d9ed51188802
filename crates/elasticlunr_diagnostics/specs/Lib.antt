pub mod Called
pub mod Messages
pub mod Nearest
pub mod Forms
pub mod FaultPaths
pub mod Script
pub mod Status
pub mod Shown
