-- The lemmas of this crate.
pub mod Giving
pub mod Reading
pub mod Counts
pub mod Kept
pub mod Restarts
pub mod Refusals
