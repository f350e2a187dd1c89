pub mod Values
pub mod Options
pub mod Devices
pub mod Orders
pub mod Printing
