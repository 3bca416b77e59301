pub mod StateSets
pub mod StateLaws
pub mod Steps
pub mod Stepping
pub mod Memo
