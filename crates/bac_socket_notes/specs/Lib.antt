pub mod Contents
pub mod Notes
pub mod Silence
pub mod Ports
pub mod Laws
