pub mod Commands
pub mod Naming
pub mod PrintedNames
pub mod PrintedParts
pub mod PrintedReplies
pub mod PrintedRows
pub mod Reading
pub mod Rows
