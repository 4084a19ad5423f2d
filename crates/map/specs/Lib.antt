-- The definitions of the map layer, in reading order: what a reader of the contracts meets.
pub mod Slots
pub mod Lists
pub mod Refusals
pub mod Build
pub mod Keys
pub mod Default
pub mod Shapes
-- what private functions and proofs need
pub mod Inner
