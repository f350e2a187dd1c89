pub mod Asking
pub mod Port
pub mod Client
pub mod Sockets
