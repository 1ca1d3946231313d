-- What the contracts cite.
pub mod Devices
pub mod Entry
