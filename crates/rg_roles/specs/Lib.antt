pub mod Members
pub mod Chains
pub mod Holding
pub mod Faults
pub mod Places
