-- Lemmas of the visits, of the writing of a page, and of the rounds of a call, each before those that cite it.
pub mod Telling
pub mod Others
pub mod Refusals
pub mod Wanting
pub mod VisitDisks
pub mod Owing
pub mod Visiting
pub mod Resting
pub mod Placing
pub mod VisitEnding
pub mod Replies
pub mod Attempting
pub mod PagesPlaced
pub mod VisitStepping
pub mod VisitHalting
pub mod Landing
pub mod Begun
pub mod Alone
pub mod Failing
pub mod Releasing
pub mod OneVisit
pub mod Quiet
pub mod Placed
pub mod Works
pub mod Logging
pub mod Flushing
pub mod Numbered
pub mod Beginning
pub mod Ending
pub mod Carrying
pub mod Writing
pub mod Explained
pub mod Shown
pub mod Disks
pub mod Halting
pub mod Calling
pub mod ReadFailures
pub mod Reading
mod Reached
mod Going
mod Bringing
mod Brought
pub mod Work
mod Kept
pub mod Lessening
pub mod Nearing
mod Stepping
mod Repeated
pub mod Fullness
pub mod TakingBoth
