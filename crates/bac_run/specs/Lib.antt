pub mod Faults
pub mod Setup
pub mod Keeping
pub mod Reading
pub mod Run
