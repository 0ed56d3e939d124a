mod Decided
pub mod HookedRuns
pub mod Hooks
pub mod Limits
pub mod Runs
pub mod Scripts
pub mod Streams
pub mod Written
