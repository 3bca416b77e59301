pub mod Packing
pub mod Cells
pub mod PackingLaws
pub mod Laying
pub mod CellsLaws
pub mod DeskBytes
pub mod DeskBytesLaws
