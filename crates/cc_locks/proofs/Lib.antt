mod Order
mod Members
mod Least
mod Ids
mod Indexed
mod Classes
mod Replay
