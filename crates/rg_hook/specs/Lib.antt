pub mod Audits
pub mod Enriching
pub mod Shown
pub mod Sinks
pub mod Tables
pub mod Told
pub mod Written
