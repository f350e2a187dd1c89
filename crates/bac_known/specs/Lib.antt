pub mod DateTime
pub mod Stamps
pub mod Kept
pub mod Known
pub mod Numbers
pub mod Ack
pub mod Records
