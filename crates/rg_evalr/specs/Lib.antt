pub mod Compiled
pub mod Compiling
pub mod Effects
pub mod Frames
pub mod Granted
pub mod Items
pub mod Sources
pub mod Tries
-- of the crates below, for those above
pub use Rattle.rg_cond.specs.Zones
pub use Rattle.rg_items.specs.PolicyRules
