-- Lemmas on what was written and logged before a transfer or a sync.
pub mod Written
pub mod Logged
