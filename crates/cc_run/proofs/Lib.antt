-- Lemmas of a run: of its lines, phases and callers, of what it gives back, and of how the program ends.
mod Acting
mod Ascending
mod LinesRan
mod WordSteps
mod Lists
mod Refused
mod Ending
mod Begins
mod Opening
mod Others
mod PhaseSteps
mod ToldOnce
mod PhasesRan
mod RowSteps
mod RunSteps
mod Statuses
mod DirtyRows
mod Returned
mod DiskSteps
mod RecordsTold
mod LogSteps
mod PostSteps
mod WorldEnds
mod Behind
mod RestartsMade
mod Faultless
pub mod Merging
pub mod CallersRan
pub mod Rooms
pub mod OnBoard
pub mod TicksRan
pub mod PlacesWent
pub mod StepsRan
pub mod Working
pub mod Queued
pub mod Copied
pub mod Untold
pub mod StoredLines
pub mod Refusing
