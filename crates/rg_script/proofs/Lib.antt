pub mod Actors
pub mod Causes
pub mod FirstLine
