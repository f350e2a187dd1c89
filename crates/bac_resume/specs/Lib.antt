pub mod Rows
pub mod Met
pub mod Stands
pub mod Texts
pub mod Resumed
pub mod Laws
