pub mod Grants
pub mod Lines
-- of the crates below, for those above
pub use Rattle.rg_grant.specs.Steps
pub use Rattle.rg_grant.specs.declared.ask.GrantAsk
pub use Rattle.rg_run_script.specs.Current
