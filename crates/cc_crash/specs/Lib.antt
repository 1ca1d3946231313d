-- What the contracts cite.
pub mod Effects
pub mod Changes
pub mod DiskPages
