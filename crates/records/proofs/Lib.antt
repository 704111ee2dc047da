pub mod Unless
pub mod Firsts
pub mod Headers
pub mod Chains
pub mod Obeying
pub mod Words
