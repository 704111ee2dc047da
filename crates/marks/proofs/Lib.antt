pub mod Estimating
pub mod Offering
pub mod Leads
pub mod Ranges
