pub mod Hooks
pub mod CommandLine
pub mod Numbers
pub mod Runs
