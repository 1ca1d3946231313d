-- What the contracts cite.
pub mod Calm
pub mod Left
pub mod Recorded
