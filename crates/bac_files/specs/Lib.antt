pub mod Files
pub mod Limited
pub mod Parts
pub mod Waiting
