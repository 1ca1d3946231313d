-- Lemmas on what a pass places with a disk in hand, and what the disk stands for then.
pub mod Noting
pub mod Unread
pub mod Recording
pub mod Written
pub mod Calming
pub mod Kept
pub mod Settled
pub mod Crashes
