-- Laws that more than one proof cites, and those that the crates above use.
pub mod Sizes
pub mod Orders
pub mod Homes
pub mod Cases
pub mod Examples
pub mod Meets
pub mod Shapes
pub mod Judges
mod Writes
pub mod Loads
