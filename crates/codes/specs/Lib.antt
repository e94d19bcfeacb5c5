-- To be believed: the table of commands, and what their second byte names.
pub mod Table
pub mod Second
