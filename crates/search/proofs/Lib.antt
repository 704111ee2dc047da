mod Tables
mod Walks
mod Relaxing
mod Complete
mod Turns
pub mod Goals
mod Backs
mod RoadWalks
mod Outcomes
mod Refusing
mod Replies
