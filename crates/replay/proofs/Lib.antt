-- Laws of the specs that a proof cites.
mod Runs
