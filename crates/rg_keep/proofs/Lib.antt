pub mod Adding
pub mod Alike
pub mod Events
pub mod Kept
pub mod Lists
pub mod Passing
pub mod Stepping
pub mod Written
