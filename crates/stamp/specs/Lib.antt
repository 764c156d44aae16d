pub mod Calendar
pub mod Stamps
