-- Lemmas of the book, each before those that cite it.
pub mod BookSteps
pub mod BlocksToGo
pub mod DoneSteps
pub mod OwnedSteps
mod StoreSteps
pub mod ReadSteps
pub mod NoncachedReads
pub mod ImageSteps
pub mod DirtyRows
