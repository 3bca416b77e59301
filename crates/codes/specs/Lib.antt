-- What the services promise, in the terms of document 01: definitions.
pub mod Spells
pub mod Flatten
-- The services: one law for each way of the code.
pub mod SpellLaws
pub mod FlattenLaws
-- The promises fix answers and buffers; the order of the causes.
pub mod Unique
pub mod Orders
