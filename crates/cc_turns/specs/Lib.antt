-- What the contracts cite.
pub mod Standing
pub mod RecordPage
pub mod Disk
pub mod Log
pub mod Held
pub mod Journal
pub mod Takes
pub mod Places
pub mod Desk
pub mod Crash
pub mod Slots
pub mod Transfers
