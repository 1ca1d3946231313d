-- What the contracts cite.
pub mod Tabled
