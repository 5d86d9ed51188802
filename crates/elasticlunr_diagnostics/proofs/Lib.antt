pub mod FormLemmas
pub mod Called
pub mod Names
pub mod Scripts
