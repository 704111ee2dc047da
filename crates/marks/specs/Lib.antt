pub mod Columns
pub mod Estimates
pub mod Offers
