-- To be believed: what is lent after a sheet was read, with no disk and with the disk that was in.
pub mod Resumed
