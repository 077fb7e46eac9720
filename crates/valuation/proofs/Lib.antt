pub mod Rounding
pub mod Amounts
pub mod Sharing
