-- What must be believed: the texts of 01's patterns and of some with 02's kind `Z` and letters of the hot side, and the rows.
pub mod Texts
pub mod Rows
-- That the texts write the patterns which 01 writes short, or those of 02, and the theorem over all rows.
pub mod TextLaws
pub mod RowLaws
