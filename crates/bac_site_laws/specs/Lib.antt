pub mod Rows
pub mod Steps
pub mod Laws
pub mod Own
pub mod Tracks
