pub mod Dates
pub mod DateLaws
pub mod DateTable
pub mod DateWays
