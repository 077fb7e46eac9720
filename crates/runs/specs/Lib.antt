pub mod Lent
pub mod Reading
pub mod Runs
