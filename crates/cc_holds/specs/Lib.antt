-- What the contracts cite.
pub mod Overlap
pub mod Touched
pub mod Holds
pub mod Blocks
pub mod Stands
pub mod Makes
pub mod Looks
pub mod Done
