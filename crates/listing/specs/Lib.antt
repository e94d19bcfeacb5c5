-- To be believed: what the listing program prints.
pub mod Text
-- Not needed for that: what the private calls say, line by line.
pub mod Lines
