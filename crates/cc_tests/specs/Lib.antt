-- What the tests' contracts cite.
pub mod Boards
