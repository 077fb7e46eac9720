pub mod Spelling
pub mod Formats
pub mod RowSteps
pub mod HourSteps
pub mod StatementSteps
