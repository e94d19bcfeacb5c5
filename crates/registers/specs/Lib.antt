-- To be believed: the boxes, what port reads do, which boxes the controller's numbers are, with those that are refusal 1, and the others box by box.
-- The table of commands stands in `codes`.
pub mod Boxes
pub mod Ports
pub mod View
pub mod Possible
-- Not needed for that: what each change leaves of the numbers, dead bytes too; seen as boxes it is what `Boxes` says (`write-seen` of `sending`).
pub mod Settle
-- To be believed: which call gives refusal 1 for which numbers. What it says of the others is, seen as boxes, what `Ports` says (`proofs/Seen.antt`).
pub mod Calls
