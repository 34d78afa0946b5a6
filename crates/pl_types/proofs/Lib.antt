pub mod Tables
pub mod Shapes
pub mod Lineages
pub mod Agreement
pub mod FullNames
pub mod TypeTexts
