mod Changing
mod Choosing
mod Filling
mod Found
mod Indexing
mod Keying
mod Lists
mod Ordered
pub mod PatternLaws
pub mod Sent
