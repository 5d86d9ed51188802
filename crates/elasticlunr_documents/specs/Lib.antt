pub mod Objects
pub mod ObjectsTold
pub mod Lines
pub mod LinesTold
pub mod Seen
