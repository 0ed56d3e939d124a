pub mod Hashes
pub mod Plain
