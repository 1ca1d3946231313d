-- What the contracts cite.
pub mod Asked
pub mod Place
pub mod Locks
