pub mod Below
pub mod Counts
pub mod Events
pub mod Lost
pub mod Texts
