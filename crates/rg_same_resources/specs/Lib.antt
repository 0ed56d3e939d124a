pub mod Counts
pub mod Prints
pub mod Twins
