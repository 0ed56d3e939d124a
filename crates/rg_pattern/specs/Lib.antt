pub mod Atoms
pub mod Reading
pub mod Standing
pub mod Covering
pub mod Tests
pub mod Steps
