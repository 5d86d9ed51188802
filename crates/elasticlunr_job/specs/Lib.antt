pub mod Commands
pub mod Answer
pub mod Given
pub mod Filled
pub mod Status
pub mod Run
pub mod Calls
