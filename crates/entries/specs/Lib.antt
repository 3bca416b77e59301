-- What a walk over a code enters at each node, and its laws.
pub mod Entries
pub mod Entering
pub mod WholeLaws
pub mod Measures
-- The causes by which services on codes begin, and the entries that they gather.
pub mod CodeOrder
pub mod Gather
pub mod Pairs
pub mod EntryAccounts
pub mod GatherLaws
