pub mod Candidates
pub mod Changes
pub mod Filing
pub mod Indexed
pub mod Kept
pub mod Origins
