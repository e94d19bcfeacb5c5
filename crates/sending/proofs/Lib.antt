-- Laws that more than one proof cites, and the theorems about the machine.
pub mod Sends
pub mod Every
pub mod Seen
pub mod Stays
pub mod Sessions
