pub mod Text
pub mod Error
