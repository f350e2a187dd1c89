pub mod Remains
pub mod Closed
