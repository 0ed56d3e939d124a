pub mod Custody
pub mod Keeps
pub mod Lines
pub mod Opened
pub mod Stages
-- of the crates below, for those above
pub use Rattle.rg_keep.specs.Laws
pub use Rattle.rg_keep.specs.Logs
pub use Rattle.rg_keep.specs.Starting
pub use Rattle.rg_run_script.specs.Current
