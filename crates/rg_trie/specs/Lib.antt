pub mod Pairs
pub mod Edited
pub mod Walked
pub mod Blocks
pub mod Sought
pub mod Keyed
pub mod Hashed
pub mod Origins
