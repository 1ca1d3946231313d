-- What the contracts cite.
pub mod Given
pub mod Restarting
pub mod Whole
