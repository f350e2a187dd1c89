pub mod Gathering
pub mod Ranges
