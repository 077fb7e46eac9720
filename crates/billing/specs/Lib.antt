pub mod Answers
pub mod Meters
pub mod Statements
