-- What the contracts cite.
pub mod Kept
pub mod Reads
pub mod After
pub mod Request
