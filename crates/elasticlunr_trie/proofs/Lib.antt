pub mod Blank
pub mod Starts
pub mod Keys
pub mod Growth
pub mod Finishing
pub mod Unique
pub mod Bounds
pub mod OneValue
pub mod Rising
pub mod Printed
pub mod Printing
pub mod Visits
pub mod Tokens
pub mod Visiting
pub mod NameOrder
pub mod TokenBytes
pub mod Reading
pub mod Refusing
pub mod Waiting
pub mod Alike
pub mod Removing
pub mod Marks
pub mod Compact
pub mod Changes
pub mod Written
pub mod Behind
mod TokenCache
mod References
