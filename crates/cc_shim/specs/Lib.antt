-- What the contracts cite.
pub mod Names
pub mod Ends
pub mod Checkpoints
pub mod Reads
pub mod Locks
pub mod Locked
