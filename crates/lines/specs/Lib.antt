pub mod Bytes
pub mod Content
pub mod Steps
