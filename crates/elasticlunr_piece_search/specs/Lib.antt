pub mod Documents
pub mod Entries
pub mod Faults
pub mod Pieces
pub mod Plan
pub mod Texts
