-- What the contracts cite.
pub mod Views
pub mod Indexed
pub mod Lent
