pub mod DeskWays
pub mod Orders
pub mod WordLaws
pub mod Untouched
pub mod StackLaws
pub mod StepLaws
