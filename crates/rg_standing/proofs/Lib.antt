pub mod Flow
pub mod Naming
pub mod Tests
