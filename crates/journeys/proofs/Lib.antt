pub mod Rides
pub mod Arrivals
pub mod RoadLists
pub mod Turning
pub mod Starts
