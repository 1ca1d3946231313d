-- What the contracts cite.
pub mod Pages
