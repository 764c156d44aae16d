pub mod Legible
pub mod Fitting
pub mod Ordered
pub mod Written
pub mod Ranging
pub mod Undone
