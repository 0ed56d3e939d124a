pub mod Held
pub mod Replay
pub mod Running
-- of the crates below, for those above
pub use Rattle.rg_session.specs.Starting
