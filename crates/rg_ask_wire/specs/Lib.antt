pub mod Asks
pub mod KeyOrder
pub mod Keeping
pub mod Orderly
pub mod Reading
