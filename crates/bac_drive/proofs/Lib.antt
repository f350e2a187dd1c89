pub mod Chains
pub mod Leaving
pub mod Putting
