pub mod Values
pub mod Head
pub mod Choice
pub mod Fit
pub mod Fault
pub mod Holders
