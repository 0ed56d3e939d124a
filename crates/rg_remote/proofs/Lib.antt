mod Targets
mod Telling
