pub mod CommandLine
pub mod Ending
pub mod Numbers
pub mod Working
