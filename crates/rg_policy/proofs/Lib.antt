pub mod EveryItem
