-- To be believed: the refusals, the capacities, bytes and numbers by place, a disk. They stand in the order in which they build on each other.
pub mod Refusals
pub mod Capacities
pub mod Bytes
pub mod Model
