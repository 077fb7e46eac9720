pub mod Digits
pub mod Names
