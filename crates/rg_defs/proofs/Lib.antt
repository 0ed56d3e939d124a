pub mod Above
pub mod Climbs
pub mod Few
pub mod Known
pub mod Named
pub mod Ranks
pub mod Tags
pub mod Whole
