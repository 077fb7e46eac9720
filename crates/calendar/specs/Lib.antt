pub mod Limits
pub mod Weekdays
pub mod Bands
pub mod Calendar
