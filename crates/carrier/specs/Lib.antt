pub mod Fates
pub mod Mail
pub mod Posts
pub mod Queues
pub mod Fating
pub mod Counting
pub mod Places
