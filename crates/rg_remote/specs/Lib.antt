pub mod Remotes
