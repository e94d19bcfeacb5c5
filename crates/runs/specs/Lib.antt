-- To be believed: the same calls as a host makes them, on a controller with lent buffers; when two hosts are alike; and the machine of before 2026-05.
pub mod Hosts
pub mod Alike
pub mod Before
