pub mod Kinds
pub mod Lists
pub mod Lookups
pub mod RuleNames
