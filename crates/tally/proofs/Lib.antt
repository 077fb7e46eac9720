pub mod PairLaws
pub mod Totals
pub mod Sums
pub mod Numbers
pub mod Lines
pub mod Failing
