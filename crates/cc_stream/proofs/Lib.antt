pub mod Flags
pub mod StreamSteps
