pub mod Crashes
pub mod Events
pub mod Keeping
pub mod Replay
pub mod Replaying
-- of the crates below, for those above
pub use Rattle.rg_admin.specs.Starting
pub use Rattle.rg_admin_laws.specs.Laws
pub use Rattle.rg_admin_laws.specs.Logs
