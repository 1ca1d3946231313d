-- What events are, as definitions say it.
pub mod Events
pub mod Holdings
pub mod Touchings
