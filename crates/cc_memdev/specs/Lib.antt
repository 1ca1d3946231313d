-- What the contracts cite.
pub mod Calls
pub mod Content
pub mod Devices
