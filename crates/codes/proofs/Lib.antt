-- The theorems about the table.
pub mod Rows
