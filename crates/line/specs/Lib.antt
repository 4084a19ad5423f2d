-- The definitions of the line layer, in document 01's order: what a reader of the contracts meets.
pub mod Buttons
pub mod Axes
pub mod Elements
pub mod Kinds
pub mod Refusals
pub mod Maps
pub mod Numbers
pub mod Tables
pub mod Fields
pub mod Values
pub mod Pairs
pub mod Walker
pub mod Parser
pub mod Puts
pub mod Reading
pub mod Calls
pub mod Shapes
-- pairs in another order
pub mod Effects
pub mod Regrouping
-- what theorems say of the definitions
pub mod Least
pub mod Tiles
pub mod Places
pub mod Overfull
pub mod Walks
-- what private functions and proofs need
pub mod Inner
pub mod Folds
