-- The lemmas of this crate.
pub mod Heads
pub mod Numbers
