-- What the contracts cite.
pub mod Same
pub mod Changed
