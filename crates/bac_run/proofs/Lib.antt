pub mod Ran
pub mod Lost
