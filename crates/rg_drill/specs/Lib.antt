pub mod Draws
pub mod Hive
pub mod Words
pub mod Workload
