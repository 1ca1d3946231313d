-- Lemmas.
pub mod Steps
