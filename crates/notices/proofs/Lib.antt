pub mod Found
pub mod Shutting
pub mod Changes
pub mod Planning
