pub mod DiskLemmas
mod Walks
