pub mod Room
pub mod Kept
pub mod Files
pub mod Laws
