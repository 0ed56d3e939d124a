pub mod Ends
pub mod Exchanges
pub mod Steps
