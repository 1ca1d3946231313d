-- What the contracts cite.
pub mod Turn
