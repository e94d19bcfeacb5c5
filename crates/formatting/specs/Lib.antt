-- To be believed: what the theorems about the sort of tracks say. `Change` and `Calls` of `disk` say what `set_track` answers and leaves, and
-- `Commands` which track a Format sets.
pub mod Order
-- Not needed for that: what the private calls say. `asked_for` is the track that `set_track` is asked for; no host calls it.
pub mod Sets
