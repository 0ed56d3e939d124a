pub mod Alike
pub mod CommandLine
pub mod Ends
pub mod Explained
pub mod Words
