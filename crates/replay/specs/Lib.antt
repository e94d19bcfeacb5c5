-- To be believed: no page here; no host reaches these calls, and no theorem is about them.
-- Not needed for that: what the functions that the programs share answer.
pub mod Answers
