-- To be believed: a track block, and entries, heads and IDs as bytes.
pub mod Block
pub mod Rows
