pub mod Found
pub mod Frequencies
pub mod Numbers
pub mod Removed
pub mod Listed
mod Unlisted
pub mod Added
pub mod Unseen
pub mod Gap
pub mod Places
pub mod Letters
pub mod Forest
pub mod Tables
pub mod Branches
mod Counted
pub mod Adding
pub mod Settled
pub mod Named
pub mod Gathered
pub mod Naming
pub mod Ranked
pub mod Single
pub mod Entries
