pub mod HandDown
pub mod Cells
pub mod CellLaws
