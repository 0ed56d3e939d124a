pub mod Asked
pub mod Bases
pub mod Bounds
pub mod Parts
