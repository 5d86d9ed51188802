pub mod Hungarian
