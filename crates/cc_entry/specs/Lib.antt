-- What the contracts cite.
pub mod Place
pub mod Pages
pub mod Queries
pub mod Kinds
pub mod Lsns
pub mod Parts
pub mod Runs
pub mod Errors
pub mod Locks
