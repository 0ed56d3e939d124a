pub mod Compiled
pub mod Lies
pub mod Matching
pub mod Rules
pub mod Tests
