pub mod Canonicalize
pub mod CanonicalLaws
pub mod RoundTrip
pub mod Demand
-- The promise fixes answer and buffers; the order of the causes.
pub mod Unique
pub mod Orders
