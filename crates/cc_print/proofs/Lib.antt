pub mod Index
pub mod Pairs
pub mod Sections
pub mod Counted
