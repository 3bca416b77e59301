-- What must be believed: what is held of a file, and what is printed.
pub mod Printing
-- That the listing's service gives it.
pub mod PrintLaws
