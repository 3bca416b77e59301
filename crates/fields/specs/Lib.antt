pub mod Text
-- Account fields, computed.
pub mod AccountCases
pub mod Fields
pub mod AccountLaws
