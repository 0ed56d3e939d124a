pub mod Asking
pub mod Hits
pub mod Matching
pub mod Standing
