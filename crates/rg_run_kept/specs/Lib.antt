pub mod Configuring
pub mod Ends
pub mod Kept
pub mod Opening
pub mod Words
