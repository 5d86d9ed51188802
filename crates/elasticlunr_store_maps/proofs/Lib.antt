pub mod Kept
pub mod Values
pub mod Writing
pub mod SameMaps
pub mod AreContents
