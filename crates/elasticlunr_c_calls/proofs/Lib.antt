pub mod Stages
pub mod Filling
pub mod Building
pub mod Cutting
