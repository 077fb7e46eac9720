pub mod Limits
pub mod Quarters
pub mod Faults
pub mod Hours
pub mod Puts
pub mod Days
