-- What the contracts cite.
pub mod Setups
pub mod Ends
pub mod Restarting
pub mod Begun
pub mod Runs
pub mod Disks
pub mod Logs
pub mod Complete
pub mod Main
pub mod Calls
