-- Lemmas.
mod Files
mod Entries
mod Stretches
mod Calls
mod Steps
mod Noncached
mod Others
mod Events
mod Records
pub mod Tabled
