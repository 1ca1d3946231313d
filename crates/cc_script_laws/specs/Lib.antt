-- What the contracts cite.
pub mod Told
pub mod Lines
