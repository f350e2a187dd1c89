pub mod Events
pub mod Ahead
pub mod Routing
pub mod Telling
