pub mod Counting
pub mod History
pub mod Rule
pub mod Seats
pub mod Steps
pub mod Values
pub mod View
