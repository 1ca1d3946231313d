-- Lemmas of queued reads.
pub mod Kept
pub mod Refused
pub mod Queued
