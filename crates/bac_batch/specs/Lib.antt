pub mod Batch
pub mod Laws
