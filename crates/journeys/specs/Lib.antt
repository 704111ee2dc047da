pub mod Journey
pub mod Earliest
pub mod Roads
pub mod Turned
pub mod Theorems
