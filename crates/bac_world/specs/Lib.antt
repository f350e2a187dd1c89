pub mod Network
pub mod Runs
pub mod Views
pub mod Machine
pub mod Sources
