pub mod Sweep
pub mod SweepWords
pub mod Fill
pub mod Meaning
pub mod Tail
pub mod Grow
pub mod Growing
pub mod RightWords
