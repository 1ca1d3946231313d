-- What the contracts cite.
pub mod Contents
pub mod Filling
pub mod Leaves
pub mod Done
pub mod Following
pub mod Owned
