pub mod Database
pub mod Keeping
pub mod Memory
pub mod Prefixes
