-- Laws that more than one proof cites; that the exported calls are the calls by value; what `disk_sector` names; what comes home; what each promise settles.
pub mod Answers
pub mod Sheets
pub mod Same
pub mod Parts
pub mod Homeward
pub mod Settled
