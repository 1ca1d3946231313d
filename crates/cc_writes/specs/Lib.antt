-- What the contracts cite.
pub mod Hands
pub mod Ways
pub mod Visits
pub mod Told
pub mod Writes
pub mod Logs
pub mod Transfers
pub mod Alone
pub mod Calls
pub mod Fetch
pub mod Work
pub mod Rounds
