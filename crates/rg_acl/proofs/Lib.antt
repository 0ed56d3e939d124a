pub mod Agreeing
pub mod Counting
pub mod Distinct
pub mod Joined
pub mod Membership
mod Others
pub mod Plain
mod Plainly
pub mod Refusals
pub mod Sorted
mod Strange
pub mod Told
mod Unnamed
pub mod Words
