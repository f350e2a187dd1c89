pub mod Stopped
pub mod Left
