pub mod Trees
pub mod Hashes
