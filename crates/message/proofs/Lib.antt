pub mod Places
pub mod Insides
pub mod Leading
pub mod Ending
pub mod Stepping
pub mod Alone
pub mod House
