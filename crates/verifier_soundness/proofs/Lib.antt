mod Words
mod Operators
mod Casts
mod References
mod FullTypes
mod Standing
mod Lowering
mod Moves
mod Throwing
mod Plains
mod Testing
mod TextKinds
mod Members
mod Calling
mod Forms
mod Calls
mod Accesses
mod Steps
pub mod Runs
pub mod Sizes
mod Rowless
