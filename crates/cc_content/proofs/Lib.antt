-- Lemmas, each before those that cite it.
pub mod Found
pub mod Orders
pub mod Kept
pub mod ContentSteps
pub mod DiskReads
mod KeptBlocks
mod DoneBytes
mod LooksStand
mod ChangesStand
mod CutsStand
mod StoresStand
pub mod Allowed
mod DoneStands
pub mod DoneFacts
mod DoneCalls
mod OwnedStand
