-- Lemmas, each before those that cite it.
pub mod PageRanges
pub mod RangeSteps
pub mod LowSteps
pub mod DroppedPages
pub mod GrownPages
mod GrownPlaces
pub mod FirstBytes
pub mod Lists
pub mod Standing
pub mod DoneSteps
pub mod EndSteps
pub mod Found
