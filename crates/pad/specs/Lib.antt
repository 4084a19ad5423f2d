-- The definitions of the pad layer, in reading order: what a reader of the contracts meets.
pub mod Values
pub mod ValueClaims
pub mod Pads
pub mod States
pub mod Refusals
pub mod PadGuarantee
pub mod TwoPads
pub mod TwoGuarantee
-- what private functions and proofs need
pub mod Lines
pub mod Inner
