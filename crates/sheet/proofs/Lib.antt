-- Laws of a sheet that the crates above use, what the proofs of its functions cite, and examples.
pub mod Gives
pub mod Lengths
pub mod Rounds
mod Highs
mod Lays
mod Judges
pub mod Examples
