pub mod Replies
pub mod Searching
pub mod Showing
