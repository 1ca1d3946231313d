-- What the contracts cite.
pub mod Written
pub mod Logged
