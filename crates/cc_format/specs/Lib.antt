-- What the contracts cite.
pub mod Spelling
pub mod LogRecords
