-- To be believed: what a change of a slice leaves, and what a comparison of two answers.
pub mod Over
pub mod Same
