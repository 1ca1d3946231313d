-- In the order in which the definitions build on each other.
pub mod Moments
pub mod Asked
pub mod Places
pub mod Stops
pub mod Refusals
pub mod Calls
pub mod Licences
pub mod LogCalls
pub mod Throttle
pub mod PageWrites
pub mod Begins
pub mod ReadAhead
pub mod Levels
pub mod Noncached
pub mod Repins
pub mod Failures
pub mod Events
