-- What the contracts of the journal cite.
pub mod Entries
pub mod Alone
pub mod Calls
pub mod Places
pub mod Rows
pub mod Streams
pub mod AllStreams
pub mod Queue
pub mod Scans
pub mod Journal
pub mod Kept
pub mod Locks
pub mod Capacity
pub mod Stamped
pub mod Since
