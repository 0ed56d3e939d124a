pub mod Entries
pub mod Knowing
pub mod Passes
pub mod Publications
-- of the crates below, for those above
pub use Rattle.rg_engine.specs.Bounds
