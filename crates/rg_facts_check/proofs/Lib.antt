mod Distinct
pub mod Law
mod Numbered
