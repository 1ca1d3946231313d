-- What the contracts cite.
pub mod PageSet
pub mod Images
pub mod Changes
pub mod Following
pub mod Dirty
pub mod Begins
