-- What the contracts cite.
pub mod Reading
pub mod Heard
pub mod Changes
pub mod Disks
pub mod Ends
pub mod Scanned
pub mod Stages
