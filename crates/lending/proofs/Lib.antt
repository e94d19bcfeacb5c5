-- The exported calls are the calls on a controller, one by one and in sequence; the theorems of demands 2 and 3 on bytes; and the disk that goes home.
pub mod Exports
pub mod Demands
pub mod SentHome
pub mod Witness
