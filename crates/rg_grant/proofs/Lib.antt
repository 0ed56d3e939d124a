mod Again
mod Apart
mod Flowing
mod InForce
mod Permitted
mod Revoked
mod SecondGrant
mod Seen
mod Single
mod Twice
mod Verdicts
pub mod Answered
pub mod NoneFor
pub mod OneMap
pub mod Refusals
