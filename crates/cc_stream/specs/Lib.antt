-- What the contracts cite.
pub mod Stream
pub mod After
