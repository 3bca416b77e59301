-- What must be believed: the promise of locating. `Reach` and `Resumes` are of crate semantics.
pub mod Locate
-- How it is computed: over the masks as they are stored.
pub mod FrontWords
-- The laws: what is computed is what is promised; of the loops; one for each way of the service.
pub mod FrontWordLaws
pub mod StateEnds
pub mod Reaching
pub mod LocateLaws
-- The promise fixes the answer, and its order is 2, 3, 4.
pub mod Unique
pub mod Orders
