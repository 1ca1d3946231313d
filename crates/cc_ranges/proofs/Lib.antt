-- Lemmas of flushes, of purges, and of noncached reads and writes, each before those that cite it.
pub mod LaterTouches
pub mod Settling
pub mod Flushed
pub mod FlushedAlone
pub mod KeptSince
pub mod DirtyRows
pub mod Owing
pub mod FlushStepping
pub mod Going
pub mod Synced
pub mod FlushNexting
pub mod Placing
pub mod Finishing
pub mod FlushHolding
pub mod Residing
pub mod Unheld
pub mod Emptying
pub mod PurgeStepping
pub mod PurgeNexting
pub mod PurgeRounds
mod PurgeLessening
pub mod PurgeHolding
pub mod Misshapen
pub mod ReadStepping
pub mod DirtyNext
pub mod ReadCalls
pub mod ReadPlacing
pub mod ReadNexting
pub mod ReadEnding
pub mod ShapeVisits
pub mod ReadFailing
pub mod ReadHolding
pub mod ReadPages
mod Goods
mod Refusing
mod WriteStepping
mod WriteNexting
mod WriteHolding
mod Storing
mod Idle
mod WriteFinishing
mod EndVisits
mod PageWriting
mod TidyEnds
mod Explained
mod WriteReady
mod Callers
pub mod WriteFull
mod WritePages
