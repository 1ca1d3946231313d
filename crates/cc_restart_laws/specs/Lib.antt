-- What the contracts cite.
pub mod Updates
pub mod Stops
