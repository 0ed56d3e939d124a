pub mod Alike
pub mod Behind
pub mod CommandLine
pub mod Ending
pub mod Said
pub mod Working
