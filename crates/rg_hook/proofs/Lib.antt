pub mod Told
pub mod Zips
pub mod Runs
