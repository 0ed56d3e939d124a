pub mod Faults
pub mod Fields
pub mod Kinds
pub mod Own
pub mod Printing
pub mod Reading
pub mod Shape
pub mod Texts
