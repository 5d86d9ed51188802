pub mod ReadingOptions
pub mod WrittenOptions
pub mod OneOptions
