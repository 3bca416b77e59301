-- What the library's functions promise: definitions.
pub mod Cases
-- One law for each way of the code.
pub mod Parts
pub mod Folds
pub mod Hexadecimal
pub mod Held
