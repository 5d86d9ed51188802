pub mod Asked
pub mod Hits
pub mod InText
pub mod Lines
