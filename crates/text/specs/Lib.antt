-- The definitions of the text layer, in reading order: what a reader of the contracts meets.
pub mod Bytes
pub mod Utf8
pub mod Uuid
pub mod Spellings
pub mod Decimal
pub mod Search
-- what private functions and proofs need
pub mod Inner
