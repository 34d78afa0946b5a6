pub mod Item
pub mod Items
pub mod Folds
pub mod Machine
pub mod Plans
pub mod Going
pub mod Weights
