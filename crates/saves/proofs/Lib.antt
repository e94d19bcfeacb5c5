-- Laws of searches and changes, the theorems of demand 3, and what is in the drive after any calls.
pub mod Finds
pub mod Places
pub mod Feeding
pub mod Demand
pub mod ReadBack
pub mod Unbrokens
pub mod Witness
pub mod Thrice
