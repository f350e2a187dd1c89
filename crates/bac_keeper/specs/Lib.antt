pub mod Machine
pub mod Halts
pub mod Ends
pub mod Places
pub mod Runs
pub mod Lines
pub mod Stops
pub mod Laws
