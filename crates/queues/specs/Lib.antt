pub mod Queue
pub mod Scan
