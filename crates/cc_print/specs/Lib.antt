-- In the order in which the definitions build on each other.
pub mod Append
pub mod Words
pub mod Queries
pub mod Answers
pub mod Calls
pub mod Entries
pub mod Trace
pub mod Replies
pub mod Text
pub mod Summary
