-- Parse trees, codes and the greedy order, over the labelled tree of a pattern, for its two kinds of star together: `K` and 02's `Z`.
-- Layer 1, what must be believed: definitions in the order of document 01, each beside the words that it renders. Contracts cite these, or
-- are equations over layer 2, which the laws tie to these.
pub mod Value
pub mod Order
-- 001's order and greedy value as the paper has them, for `K` alone; Paper001Laws: where a pattern has no `Z`, Order's are these
pub mod Paper001
pub mod Code
pub mod Automaton
pub mod Visits
pub mod Accounts
pub mod Begins
-- 01's rule of accounts before 02's Job 5; AccountLaws: where a pattern has no account 9, Accounts' entries are those of this rule
pub mod Innermost
-- Layer 2, how it is computed: decoding, the two sweeps, leaving out empty iterations. Programs are proved against these.
pub mod Decode
pub mod Sweeps
pub mod Strip
pub mod Positions
pub mod Fronts
-- Visits with the bits written during them, and what is promised of a piece (02, Job 10). These must be believed too; they read a code back by
-- Decode.
pub mod Cuts
pub mod Stands
-- What is promised: the statements of document 03.
pub mod Promise
-- Words of the laws on which definitions of other crates rest.
pub mod Every
pub mod Owned
pub mod Passing
pub mod Greatest
pub mod Followed
