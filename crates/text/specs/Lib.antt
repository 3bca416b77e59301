-- What must be believed: numbers, bytes and refusals as text, and what it is to put text into a buffer.
pub mod Text
-- Putting: one law for each way of the code, and what is put where all of it fits.
pub mod Putting
-- The digits of numbers: as the code makes them, how many there are, and that they write the number.
pub mod Digits
-- How long lines can be.
pub mod Lengths
