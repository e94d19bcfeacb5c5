-- To be believed: no page here; `Calls` of `store` says what a load and a fresh format answer and leave.
-- Not needed for that: what the private calls say, and those that are lent to the crates above.
pub mod Laying
