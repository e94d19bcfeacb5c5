-- To be believed: the answer word.
pub mod Words
