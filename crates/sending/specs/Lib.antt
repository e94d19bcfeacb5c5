-- To be believed: what a byte sent does, the byte that ends a read, and the sessions that document 01 gives.
pub mod Machine
pub mod Reads
pub mod Sessions
-- To be believed: which numbers and held bytes give a byte sent refusal 1. What it says of the others is, seen as boxes, the machine (`write-seen`).
pub mod Calls
