mod GoingOn
mod Mixed
mod Moving
mod Settled
