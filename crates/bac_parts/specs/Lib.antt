pub mod Faults
pub mod Archives
pub mod Works
pub mod Begun
pub mod Visits
