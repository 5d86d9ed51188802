pub mod Between
pub mod Listed
pub mod Numbered
pub mod Parts
