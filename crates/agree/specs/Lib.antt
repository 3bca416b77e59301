pub mod Agree
pub mod AgreeLaws
pub mod Unique
pub mod Orders
