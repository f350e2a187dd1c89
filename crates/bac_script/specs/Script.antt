-- The format of a script: how it is cut into lines, and what a line says.
pub mod Split
pub mod Lines
pub mod Words
pub mod Number
pub mod Hexadecimal
pub mod Stamp
pub mod Line
