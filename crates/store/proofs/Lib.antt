-- Laws that more than one proof cites, and those that the crates above use.
pub mod Same
pub mod Sums
pub mod Checks
pub mod Walks
pub mod Bearings
pub mod Founds
pub mod Rounds
pub mod Leaves
pub mod Indexes
pub mod Pens
pub mod Blanks
