-- How values of the layers are laid out as numbers at the C boundary.
pub mod Flat
pub mod FlatMaps
pub mod FlatLists
pub mod FlatTokens
pub mod FlatSlots
pub mod FlatStore
pub mod FlatNear
pub mod FlatShares
pub mod FlatWalks
pub mod FlatPads
pub mod FlatTwo
