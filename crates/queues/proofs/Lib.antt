pub mod Inclusive
mod Pairs
