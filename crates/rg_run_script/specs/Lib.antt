pub mod Current
pub mod Follow
pub mod Hooked
pub mod Limits
pub mod Moments
pub mod Ports
pub mod Printed
pub mod Runs
pub mod Statuses
pub mod Streams
-- of the crates below, for those above
pub use Rattle.rg_script.specs.Lines
