-- What the contracts cite.
pub mod Slots
pub mod Block
pub mod Levels
pub mod Index
pub mod Tree
