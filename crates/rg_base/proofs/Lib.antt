mod Bare
pub mod Chars
pub mod Firsts
pub mod Folds
pub mod Lists
pub mod Names
