pub mod Drill
pub mod Report
