-- What must be believed: the order of the causes.
pub mod TapeOrder
-- The laws: which cause is first, and what is known of a tape that is taken.
pub mod TapeLaws
