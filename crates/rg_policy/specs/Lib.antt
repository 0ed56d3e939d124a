pub mod Kinds
pub mod Maps
