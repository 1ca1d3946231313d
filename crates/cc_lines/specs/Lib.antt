-- What the contracts cite.
pub mod Queues
pub mod Holds
pub mod Line
