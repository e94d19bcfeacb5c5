-- To be believed: what a save and a track that is set make of a disk, and what the public calls answer and leave.
pub mod Change
pub mod Calls
-- Not needed for that: what the private calls of a save and of a read say.
pub mod Saving
pub mod Serving
