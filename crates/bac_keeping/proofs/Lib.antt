pub mod Opened
pub mod Begun
pub mod Untouched
pub mod Records
pub mod Losing
pub mod Idle
pub mod Stops
pub mod Settled
