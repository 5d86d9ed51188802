pub mod Parts
pub mod Printed
pub mod Shape
pub mod Sorted
