-- Laws that more than one proof cites, and those that the crates above use.
pub mod Tracks
pub mod Numbering
