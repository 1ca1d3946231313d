-- What the contracts cite.
pub mod Answers
pub mod Pages
pub mod Paged
pub mod Queries
pub mod Logs
pub mod Levels
pub mod Streamless
pub mod Flushes
pub mod Purges
pub mod Discards
pub mod Maps
pub mod Held
pub mod Ends
pub mod PageWrites
pub mod Ticks
pub mod Throttle
pub mod Ahead
