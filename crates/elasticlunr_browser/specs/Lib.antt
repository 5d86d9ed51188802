pub mod Marks
pub mod Pairs
pub mod Stages
pub mod Stemmers
pub mod Kinds
pub mod Facts
pub mod Languages
pub mod Named
