pub mod Itself
pub mod Plain
pub mod Policies
pub mod Resources
pub mod Right
mod Tokens
