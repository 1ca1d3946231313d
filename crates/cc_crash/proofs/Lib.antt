-- Lemmas on what an entry makes of a stream and of a page, each before those that cite it.
pub mod EffectSteps
pub mod HoldPlaces
pub mod TouchSteps
pub mod DirtySteps
pub mod SizeSteps
pub mod PageBytes
pub mod PageSteps
