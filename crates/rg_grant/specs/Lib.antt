pub mod Allowing
pub mod Forms
pub mod InForce
pub mod Permissions
pub mod Planning
pub mod Rows
pub mod Steps
pub mod Taking
-- of the crates below, for those above
pub use Rattle.rg_admin.specs.Starting
pub use Rattle.rg_admin_laws.specs.Logs
