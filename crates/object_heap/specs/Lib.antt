pub mod Effects
pub mod Fits
pub mod Fronts
pub mod Laws
pub mod Objects
pub mod Parts
pub mod Paying
pub mod Store
