-- The definitions that the contracts cite, and their laws, are those of crate binary.
pub use Rattle.binary.specs.Bits
pub use Rattle.binary.specs.Numbers
pub use Rattle.binary.specs.Fields
pub use Rattle.binary.specs.Packing
pub use Rattle.binary.specs.Reading
pub use Rattle.binary.specs.Writing
pub use Rattle.binary.specs.Handed
pub use Rattle.binary.specs.Words
pub use Rattle.binary.specs.Lowest
pub use Rattle.binary.specs.Unions
pub use Rattle.binary.specs.Joining
pub use Rattle.binary.specs.Paper03
pub use Rattle.binary.specs.Examples
pub mod Ones
