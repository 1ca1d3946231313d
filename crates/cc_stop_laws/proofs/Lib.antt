-- Lemmas.
mod Given
mod Position
mod Outcome
mod Made
pub mod Restarting
pub mod Runs
pub mod Unopened
pub mod Computed
mod WorkedRun
