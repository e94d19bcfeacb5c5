-- To be believed: the exported calls on lent bytes, sequences of them, and what they are of the machine.
pub mod Lendings
