-- What the contracts cite.
pub mod Words
pub mod NoRun
pub mod CommandLine
pub mod Taken
