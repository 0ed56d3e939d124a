pub mod Places
pub mod Plain
pub mod Questions
pub mod Replies
