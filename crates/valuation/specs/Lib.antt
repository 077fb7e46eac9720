pub mod Rounding
pub mod Amounts
pub mod Limits
pub mod Sharing
pub mod Excess
