pub mod Asks
pub mod Bodies
pub mod Paths
pub mod Patterns
pub mod Query
pub mod Responses
pub mod Routes
pub mod Table
