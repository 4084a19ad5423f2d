-- The definitions of the store layer, in reading order. Decode computes what Layout says; Inner, Keys, Rows, Tree,
-- Table and Sights serve private functions only.
pub mod Parties
pub mod Held
pub mod Shares
pub mod Layout
pub mod Decode
pub mod Lines
pub mod Refusals
pub mod Book
pub mod Store
pub mod Saves
pub mod Filings
pub mod Guarantee
pub mod Promises
pub mod Older
pub mod Near
pub mod Isolation
pub mod SharesKept
pub mod Walks
pub mod Removing
pub mod Forms
-- what private functions and proofs need
pub mod Inner
pub mod Fronts
pub mod Claims
pub mod Settings
pub mod Keys
pub mod Rows
pub mod Border
pub mod Tree
pub mod Table
pub mod Sights
