pub mod Causes
pub mod Ends
pub mod Line
pub mod Lines
pub mod Words
-- of the crates below, for those above
pub use Rattle.rg_cmd_wire.specs.PrintedReplies
