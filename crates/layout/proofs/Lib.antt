-- Laws that more than one proof cites, and the theorem that bytes and controller are each other's inverse.
pub mod Images
pub mod Inverse
