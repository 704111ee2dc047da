pub mod Estimate
pub mod Labels
pub mod LinkWalks
pub mod Steps
pub mod Counting
pub mod RoadLists
pub mod Question
pub mod Searching
