pub mod items
pub mod subtree
