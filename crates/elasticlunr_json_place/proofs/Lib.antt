pub mod Members
pub mod Depths
pub mod WholeLines
pub mod LineValues
