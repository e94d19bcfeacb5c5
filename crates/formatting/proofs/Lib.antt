-- Laws that more than one proof cites; `Sorts` are those that fix the sort.
pub mod Sorts
pub mod Blocks
pub mod Turns
pub mod Puts
