pub mod Epoch
pub mod Exposition
pub mod Page
pub mod Standing
