pub mod Moved
pub mod Below
pub mod Several
