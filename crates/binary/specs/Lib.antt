-- What must be believed.
pub mod Bits
-- Laws, for any width.
pub mod Numbers
pub mod Fields
pub mod Packing
pub mod Reading
pub mod Writing
pub mod Handed
pub mod Words
pub mod Lowest
pub mod Unions
pub mod Joining
-- The same in the words of document 03, and 01's listing.
pub mod Paper03
pub mod Examples
