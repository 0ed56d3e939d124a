pub mod Asks
pub mod Exchanges
pub mod Loop
pub mod Sessions
