pub mod Demanded
pub mod Rejected
pub mod StepLaws
