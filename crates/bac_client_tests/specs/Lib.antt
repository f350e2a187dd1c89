pub mod Held
pub mod Day
pub mod Foreign
pub mod ForeignPort
pub mod Growing
pub mod Apart
