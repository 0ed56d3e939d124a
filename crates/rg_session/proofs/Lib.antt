mod Deltas
mod Downloaded
mod Opened
mod Refreshed
mod Rights
mod Settled
mod Told
