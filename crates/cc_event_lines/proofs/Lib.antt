-- Lemmas, each before those that cite it.
pub mod Happened
pub mod Quiet
pub mod NameSteps
pub mod NewestSteps
pub mod Doings
pub mod Lists
pub mod RoutineSteps
pub mod RoutineEnds
pub mod Deferrals
pub mod StreamSteps
pub mod KnownLines
pub mod LineSteps
pub mod DisksUsed
