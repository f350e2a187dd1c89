pub mod Moment
pub mod Seat
pub mod Hosts
pub mod News
pub mod Site
pub mod Asked
pub mod SiteLaws
pub mod Status
