pub mod Retimed
pub mod FreeFlow
pub mod Retimings
