pub mod Replies
pub mod Shown
pub mod Talking
pub mod Passing
pub mod Steps
