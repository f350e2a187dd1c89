pub mod Chain
pub mod Event
pub mod Happens
pub mod Laws
