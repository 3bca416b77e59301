-- What the services promise, in the terms of document 01: definitions.
pub mod Spans
pub mod Parts
-- The visits that a walk over a code passes, and the search for one of them.
pub mod Traces
pub mod TraceLaws
-- No node stands inside itself, so that a visit ends where the search of its parts ends.
pub mod Apart
pub mod Seeks
-- The services: one law for each way of the code.
pub mod SpanLaws
pub mod Pieces
pub mod PartLaws
-- A node outside the table has no visit.
pub mod Outside
-- The promise fixes the answer; the order of the causes.
pub mod Unique
pub mod Orders
