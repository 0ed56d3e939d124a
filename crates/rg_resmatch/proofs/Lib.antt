pub mod Compiling
pub mod Deciding
pub mod Named
pub mod Names
pub mod Stars
pub mod Weakening
