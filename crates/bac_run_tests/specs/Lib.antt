pub mod Apart
pub mod Done
pub mod Stopped
