pub mod GrantedTexts
pub mod ItemsCompiled
pub mod RulesPassed
