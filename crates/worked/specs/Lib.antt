pub mod Month
pub mod Figures
