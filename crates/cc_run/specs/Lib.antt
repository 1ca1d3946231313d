-- What the contracts cite.
pub mod Desks
pub mod Lines
pub mod Begun
pub mod Runs
pub mod Rows
pub mod Ticks
pub mod Aheads
pub mod Places
pub mod Phases
pub mod Callers
pub mod Threads
pub mod Workers
pub mod Once
pub mod StoredLines
