pub mod Bytes
pub mod Making
