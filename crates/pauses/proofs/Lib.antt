-- A paused controller that is taken up from its sheet goes on as it was: on calls, and on lent bytes; the demands start from it; examples.
pub mod Paused
pub mod PausedBytes
pub mod Witness
