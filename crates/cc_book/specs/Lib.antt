-- What the contracts cite.
pub mod Book
pub mod Read
pub mod Noncached
pub mod Stored
