pub mod Pages
pub mod Places
pub mod Changes
mod Order
pub mod Overlap
pub mod BlockRows
pub mod BlockNumbers
pub mod HoldBlocks
pub mod Zips
pub mod KeptLists
pub mod PagesOwed
pub mod HoldsStanding
pub mod Found
pub mod KeptReads
pub mod KeptBlocks
pub mod LeastOwed
pub mod MadeIds
pub mod RowsMade
