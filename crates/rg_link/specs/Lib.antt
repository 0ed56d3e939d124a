pub mod Answers
pub mod Audits
pub mod Coming
pub mod Loop
pub mod Sessions
pub mod Workers
