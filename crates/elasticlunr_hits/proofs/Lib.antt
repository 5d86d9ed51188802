pub mod Names
pub mod Boosts
pub mod InOrder
pub mod WordTexts
pub mod Read
pub mod Kept
pub mod Texts
pub mod Unfound
