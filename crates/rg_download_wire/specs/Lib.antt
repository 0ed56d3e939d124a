pub mod InOrder
pub mod Parts
pub mod PrintedFacts
pub mod Reading
