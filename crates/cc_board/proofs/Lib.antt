-- Lemmas.
pub mod Views
pub mod UnderWay
pub mod Standing
pub mod Parts
pub mod Taking
pub mod Giving
pub mod Seating
pub mod GivingJournal
pub mod Resting
pub mod Passes
pub mod Closing
pub mod Opening
pub mod Names
