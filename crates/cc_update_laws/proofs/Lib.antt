-- Lemmas.
mod LastOwn
mod Silent
pub mod Keeping
mod Owed
mod Growing
mod Unlisted
mod Replies
mod LogCalls
pub mod Recorded
pub mod Said
pub mod Updates
pub mod Checkpoints
mod Whole
pub mod Within
pub mod Devices
