pub mod Stemmer
pub mod Stemmed
