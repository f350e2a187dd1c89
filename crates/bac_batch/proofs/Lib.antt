pub mod Parts
pub mod Ran
pub mod Given
pub mod Stepped
pub mod Inside
pub mod Replies
pub mod Happening
