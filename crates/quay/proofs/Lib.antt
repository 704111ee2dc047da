pub mod Ferries
