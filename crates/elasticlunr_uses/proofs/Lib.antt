pub mod Jobs
pub mod OneToken
pub mod Orders
pub mod Passing
