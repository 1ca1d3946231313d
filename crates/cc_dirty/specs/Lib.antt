-- What the contracts cite.
pub mod Order
pub mod Unwritten
pub mod Table
