pub mod Meaning
pub mod Laws
pub mod Same
pub mod Links
pub mod Latest
