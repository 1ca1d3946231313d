-- What the contracts cite.
pub mod Known
pub mod Reasons
