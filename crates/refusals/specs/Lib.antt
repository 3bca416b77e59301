pub mod Refusals
pub mod RefusalLaws
-- A service's order of checks, and its law.
pub mod Checks
pub mod CheckLaws
