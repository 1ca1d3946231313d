-- What the contracts cite.
pub mod Calls
pub mod Chains
pub mod Scripts
pub mod ScriptChains
pub mod Complete
