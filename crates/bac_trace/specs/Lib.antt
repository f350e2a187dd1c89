pub mod Lines
pub mod Traces
