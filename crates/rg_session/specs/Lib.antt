pub mod Closing
pub mod Documents
pub mod Opening
pub mod Refreshing
pub mod Right
-- of the crates below, for those above
pub use Rattle.rg_admin.specs.Starting
