-- What must be believed: a whole code.
pub mod Whole
-- What a walk over a code gives at each node, and its laws.
pub mod Handed
pub mod Looks
pub mod Lines
pub mod WholeLaws
