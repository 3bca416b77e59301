pub mod Load
pub mod LoadForms
pub mod ReadLines
pub mod Lines
pub mod Loading
pub mod LoadLaws
-- The promise fixes outcome and table; the order of the causes.
pub mod Unique
pub mod Orders
-- The rule of accounts before 02's Job 7, and what it leaves as it was.
pub mod OldAccounts
pub mod OldTexts
