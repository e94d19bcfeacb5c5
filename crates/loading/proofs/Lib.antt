-- Laws that more than one proof cites, and the theorems that what a load and a fresh format leave is accepted.
pub mod Lays
pub mod Loads
pub mod Left
