-- Laws that more than one proof cites, and those that the crate above uses.
pub mod Numbers
pub mod Seen
pub mod Polls
pub mod Drives
pub mod Kept
