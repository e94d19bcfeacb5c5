-- To be believed: the layout, the searches, the fresh format, and what the public calls answer and leave. They stand in the order in which they build
-- on each other; `Store` is the layout.
pub mod Store
pub mod Find
pub mod Search
pub mod Fresh
pub mod Calls
-- To be believed: where a sector stands in a store, which is what `disk_sector` answers and what `located` is about; the last part of the page.
pub mod Spots
