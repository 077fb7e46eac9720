pub mod Faults
pub mod Numbers
pub mod Formats
pub mod Hours
pub mod HourPackets
pub mod StatementPackets
