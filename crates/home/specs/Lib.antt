-- To be believed: which image a disk is written as, what the calls answer and leave, and the cases of refusal 12.
pub mod Home
pub mod Calls
pub mod Cases
-- Not needed for that: what the pass that measures and the pass that writes go by.
pub mod Passes
