-- What the contracts cite.
pub mod Step
pub mod Faults
pub mod Fill
pub mod Room
pub mod Landing
