pub mod Endings
pub mod Opens
pub mod Sent
pub mod Served
