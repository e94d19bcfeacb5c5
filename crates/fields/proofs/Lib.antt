-- Laws that more than one proof cites, and those that the crates above use.
pub mod Tests
pub mod Sizes
pub mod Readers
pub mod Exits
