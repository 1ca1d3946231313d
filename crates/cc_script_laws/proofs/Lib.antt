-- Lemmas.
mod LineWalks
mod RunWalks
mod Growing
pub mod Settles
mod Opened
mod Numbered
mod Beside
mod BesideLines
mod Scripts
mod Unopened
mod RecordsNone
mod Stamps
mod Stamping
mod Unopening
mod Phases
mod Rows
mod SmallStamps
