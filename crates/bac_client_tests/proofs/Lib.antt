pub mod Held
pub mod Day
pub mod Again
pub mod Foreign
pub mod Honest
pub mod Loggable
pub mod ForeignPort
pub mod Growing
