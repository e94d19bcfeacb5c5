-- Laws that more than one proof cites, and the theorems about sequences of calls on a controller.
pub mod Effects
pub mod Follows
pub mod Steps
pub mod Any
pub mod Before
pub mod Together
pub mod Gets
pub mod Witness
