pub mod Stemming
