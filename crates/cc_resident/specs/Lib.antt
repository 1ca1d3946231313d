-- What the contracts cite.
pub mod Residents
pub mod Changes
