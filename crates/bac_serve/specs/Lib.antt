pub mod Serving
pub mod Waiting
