pub mod Parts
pub mod Sweeping
pub mod SweepLaws
pub mod Ways
