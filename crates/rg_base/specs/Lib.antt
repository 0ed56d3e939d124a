pub mod Counts
pub mod Folding
pub mod Listed
pub mod Names
pub mod Noted
pub mod Pairs
pub mod Places
pub mod Texts
