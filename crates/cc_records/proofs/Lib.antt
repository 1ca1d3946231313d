-- Lemmas on what is stored.
pub mod FirstMaps
pub mod Ungrown
pub mod StoredPages
pub mod CalmSteps
pub mod Within
pub mod Settling
pub mod CrashPages
pub mod CrashRecords
