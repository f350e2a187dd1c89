pub mod Ids
pub mod Onward
pub mod Several
pub mod Laws
