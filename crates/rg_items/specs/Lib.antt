pub mod Accesses
pub mod PolicyRules
pub mod Subjects
