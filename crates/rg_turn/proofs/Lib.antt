mod Calls
pub mod Histories
mod Joining
mod Moves
mod Sharing
