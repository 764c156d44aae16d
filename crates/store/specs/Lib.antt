pub mod Entries
pub mod Rows
pub mod Stores
pub mod Keeping
pub mod Held
pub mod Newest
