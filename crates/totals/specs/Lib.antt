pub mod Totals
pub mod Sums
pub mod TotalsLaws
pub mod Unique
pub mod Orders
pub mod OldTotals
