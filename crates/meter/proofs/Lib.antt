pub mod Dumps
pub mod Checks
pub mod Puts
pub mod HourBytes
pub mod Adding
