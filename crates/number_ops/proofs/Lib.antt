pub mod TextRoom
pub mod Keeping
pub mod KindsOf
pub mod Needing
pub mod Related
pub mod TextOrder
