-- What others place while a disk is kept.
pub mod Kept
