pub mod Alike
pub mod Coming
pub mod CommandLine
pub mod Ends
pub mod Expecting
pub mod Flags
pub mod Printing
pub mod Testing
