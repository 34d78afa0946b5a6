pub mod Documents
pub mod Committing
pub mod Replies
pub mod Updates
pub mod Serial
pub mod Running
