pub mod Calls
pub mod Carried
pub mod Folders
pub mod Indexes
pub mod Languages
pub mod Pieces
pub mod Searches
