pub mod Logging
pub mod Silence
