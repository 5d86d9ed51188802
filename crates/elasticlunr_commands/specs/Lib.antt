pub mod Entered
pub mod Fields
pub mod History
pub mod Root
pub mod Standing
