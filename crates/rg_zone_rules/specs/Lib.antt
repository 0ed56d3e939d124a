pub mod Overlap
pub mod Rules
pub mod Zones
