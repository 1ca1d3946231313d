-- What the contracts cite.
pub mod View
pub mod Rule
pub mod Plays
pub mod Board
pub mod Rest
