pub mod LineBytes
pub mod Lines
