-- What the contracts cite.
pub mod Order
pub mod Places
