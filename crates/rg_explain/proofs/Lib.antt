pub mod Chosen
pub mod Filled
pub mod Reasons
pub mod Zoned
