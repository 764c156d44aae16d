pub mod Texts
pub mod Answered
pub mod Owned
pub mod Laws
