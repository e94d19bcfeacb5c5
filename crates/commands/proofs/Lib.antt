-- Laws that more than one proof cites, and those that the crates above use.
pub mod Effects
pub mod Runs
pub mod Machines
