pub mod Suffixes
pub mod Walks
pub mod Decided
pub mod Joined
pub mod Table
pub mod Read
