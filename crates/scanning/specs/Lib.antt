pub mod Scans
pub mod Cuts
pub mod Scanning
pub mod Parsing
