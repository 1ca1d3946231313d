mod Search
mod Lookup
mod Edits
mod Rows
mod Gap
