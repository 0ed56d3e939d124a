pub mod Sets
pub mod Forks
pub mod Steps
pub mod Sent
