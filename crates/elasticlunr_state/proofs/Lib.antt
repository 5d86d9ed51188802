pub mod Counting
pub mod Entering
pub mod Others
pub mod Pairing
pub mod Removing
pub mod Storing
