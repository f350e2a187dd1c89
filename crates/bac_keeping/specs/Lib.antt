pub mod Keeping
pub mod Parts
pub mod Stopping
pub mod Laws
pub mod Idle
pub mod RecordLaws
