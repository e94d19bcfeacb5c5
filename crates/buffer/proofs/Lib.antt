-- Laws that more than one proof cites, and those that the crates above use.
pub mod Overs
pub mod Sames
mod Shifts
mod Loops
