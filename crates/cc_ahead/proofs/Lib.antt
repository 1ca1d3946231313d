pub mod KeptSteps
pub mod MapSteps
