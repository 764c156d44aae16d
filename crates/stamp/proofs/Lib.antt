pub mod Sums
pub mod Texts
pub mod Stamps
