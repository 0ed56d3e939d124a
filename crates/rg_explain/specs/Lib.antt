pub mod Explaining
pub mod Parts
