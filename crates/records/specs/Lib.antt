pub mod Bytes
pub mod Layout
pub mod Kinds
pub mod Contents
pub mod Rules
pub mod Faults
pub mod Reading
