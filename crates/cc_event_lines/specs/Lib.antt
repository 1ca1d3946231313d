-- What the contracts cite.
pub mod Happening
pub mod Names
pub mod Doing
pub mod Routines
pub mod Lines
pub mod Run
