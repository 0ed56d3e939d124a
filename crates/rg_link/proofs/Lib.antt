pub mod Actors
pub mod Ends
pub mod Faults
pub mod Held
pub mod Once
pub mod Steps
pub mod Unwritten
