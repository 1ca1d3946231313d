-- What the contracts cite.
pub mod Keeping
pub mod Devices
pub mod Logs
