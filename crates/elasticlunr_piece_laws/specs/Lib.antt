pub mod Alike
pub mod Heads
pub mod Held
pub mod ReadPieces
pub mod Searched
pub mod Whole
