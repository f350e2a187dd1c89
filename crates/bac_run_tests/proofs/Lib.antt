pub mod Untold
pub mod Heard
pub mod Kept
pub mod Quiet
pub mod Jobs
