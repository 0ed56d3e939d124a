pub mod Granted
pub mod Readings
