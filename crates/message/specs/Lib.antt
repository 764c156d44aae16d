pub mod Names
pub mod Meaning
pub mod Grammar
pub mod Reader
