pub mod Bytes
pub mod Calls
pub mod Clocks
pub mod Machine
pub mod Memory
pub mod Moments
pub mod Repeated
