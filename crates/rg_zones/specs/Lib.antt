pub mod Best
pub mod Candidates
pub mod Entries
pub mod Matched
pub mod Places
pub mod Zoning
