pub mod Sails
