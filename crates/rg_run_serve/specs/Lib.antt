pub mod Links
pub mod Preparing
pub mod Serve
pub mod Serves
