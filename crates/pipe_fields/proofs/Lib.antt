pub mod Names
pub mod Depths
pub mod Written
pub mod WayLemmas
pub mod Past
