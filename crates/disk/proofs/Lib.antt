-- Laws that more than one proof cites, and those that the crates above use.
pub mod Holds
pub mod Cuts
pub mod Saves
pub mod Accepts
pub mod Extents
pub mod Gathers
pub mod Servings
