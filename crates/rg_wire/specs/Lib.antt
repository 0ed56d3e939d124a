pub mod Fields
pub mod Names
pub mod Own
pub mod Printing
pub mod Records
pub mod Shapes
pub mod Tokens
pub use Rattle.rg_json.specs.Reading
