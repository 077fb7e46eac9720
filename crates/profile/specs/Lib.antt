pub mod Kept
pub mod Profile
