-- What the contracts cite.
pub mod Edge
