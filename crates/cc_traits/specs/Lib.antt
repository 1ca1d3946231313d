-- What the contracts cite.
pub mod Stop
pub mod Told
pub mod Setup
pub mod Disk
pub mod Log
