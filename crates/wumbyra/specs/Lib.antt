pub mod Packed
pub mod PackedLaws
pub mod CellLaws
pub mod SpanParts
pub mod LocateParts
pub mod Unique
