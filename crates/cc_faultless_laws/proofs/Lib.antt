-- What the laws are proved by.
pub mod Quiet
