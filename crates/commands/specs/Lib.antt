-- To be believed: what each command does, and what that leaves of the bytes that are lent. The boxes and the table of commands stand in `registers`
-- and `codes`.
pub mod Commands
pub mod Lent
