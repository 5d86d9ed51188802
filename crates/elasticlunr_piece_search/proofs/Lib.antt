pub mod Adding
pub mod Entering
pub mod FieldNames
pub mod Filling
pub mod Lengths
pub mod Others
pub mod Reading
