-- What the contracts cite.
pub mod Redoable
pub mod Runs
pub mod Worked
