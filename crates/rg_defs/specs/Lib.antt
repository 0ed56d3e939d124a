pub mod Faults
pub mod Grants
pub mod Paths
pub mod PathTests
pub mod Rules
