-- Lemmas, each before those that cite it.
pub mod OtherObjects
pub mod ViewedSpans
pub mod FirstReasons
