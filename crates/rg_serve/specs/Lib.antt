pub mod Held
pub mod Names
pub mod Opened
pub mod Runs
pub mod Served
pub mod Trails
-- of the crates below, for those above
pub use Rattle.rg_session.specs.declared.refresher.Refresh
pub use Rattle.rg_session.specs.Refreshing
pub use Rattle.rg_session.specs.Right
