-- To be believed: the format of an image, and what the walk's calls answer in its terms (`says` is about them). A track block stands in `tracks`.
pub mod Dsk
pub mod Calls
