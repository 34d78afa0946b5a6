pub mod DocumentLemmas
pub mod PlaceLemmas
pub mod SerialLemmas
pub mod TurnLemmas
pub mod RunLemmas
