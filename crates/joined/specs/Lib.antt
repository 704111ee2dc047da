pub mod Joined
pub mod Joins
pub mod Answered
