pub mod Finishing
pub mod Room
pub mod Telling
pub mod Unique
