pub mod Theory
mod Parts
mod Binds
mod Gatherings
mod Readings
mod Unfoldings
