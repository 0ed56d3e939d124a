pub mod Bounds
pub mod Kept
pub mod Marks
pub mod Moved
pub mod Plan
pub mod Seen
