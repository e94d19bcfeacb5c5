-- To be believed: which bytes a sheet is, and what the calls that write and read one answer and leave.
pub mod Sheets
pub mod Calls
