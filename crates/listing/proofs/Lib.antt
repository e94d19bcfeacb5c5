pub mod Digits
pub mod Lines
pub mod Tracks
pub mod Bounds
pub mod Listings
