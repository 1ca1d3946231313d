-- What the contracts cite.
pub mod Passes
