-- To be believed: calls and what they answer, sequences of them on the machine, and the words of demand 3.
pub mod Events
pub mod Stages
pub mod Words
