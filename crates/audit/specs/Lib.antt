pub mod Cases
pub mod Reading
pub mod Settlings
pub mod Again
pub mod Found
pub mod Compared
pub mod Audits
pub mod Totals
