pub mod Gathering
pub mod Hosting
pub mod Answering
pub mod OnLiterals
pub mod Extending
pub mod Lining
