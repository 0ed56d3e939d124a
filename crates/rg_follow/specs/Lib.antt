pub mod Answering
pub mod Asking
pub mod Faults
pub mod Following
pub mod Rounds
