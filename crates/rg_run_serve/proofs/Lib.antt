pub mod Finishing
pub mod Readied
