pub mod DeskLaws
pub mod DeskRefused
pub mod DeskServed
pub mod DeskRuns
pub mod Unloaded
