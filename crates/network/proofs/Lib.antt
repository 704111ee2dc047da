pub mod Orders
pub mod Ranges
pub mod Lowest
pub mod Greatest
pub mod Same
