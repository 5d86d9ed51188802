pub mod Counted
pub mod Others
pub mod Texts
