pub mod Numbers
pub mod Moments
pub mod Values
pub mod Entries
pub mod Output
pub mod Addresses
pub mod Causes
pub mod Texts
