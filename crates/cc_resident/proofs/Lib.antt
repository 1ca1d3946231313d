mod Frames
mod Lists
mod Kept
mod Bytes
mod Spans
mod Cuts
mod Shares
