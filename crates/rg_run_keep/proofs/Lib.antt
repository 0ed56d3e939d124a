pub mod Finishing
pub mod Following
pub mod Fronts
pub mod Growing
pub mod Opening
pub mod Readings
pub mod Staging
