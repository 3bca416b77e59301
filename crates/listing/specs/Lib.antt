-- What must be believed: the bytes of a listing.
pub mod Listing
-- The lines: one law for each way of the code, and how long they can be.
-- The service: laws of its ways.
pub mod ListingLaws
-- What the definition means for values, the theorem behind its computed parts.
pub mod Meaning
pub mod Examples
-- Files that are cut off.
pub mod Shortened
pub mod Unique
-- Patterns of 01's accounts: the listing is as it was.
pub mod OldListing
