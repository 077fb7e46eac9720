pub mod Anew
pub mod Stands
pub mod Audited
pub mod Agreed
