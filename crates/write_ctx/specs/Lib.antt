pub mod Keys
pub mod Laws
pub mod Lines
pub mod Placing
pub mod Replies
