-- To be believed: which bytes a controller is.
pub mod Layout
