pub mod Datagrams
pub mod Delivers
pub mod Verdicts
pub mod Tries
pub mod Client
pub mod Honest
pub mod Growing
