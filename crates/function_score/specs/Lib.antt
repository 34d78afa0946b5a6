pub mod Scores
pub mod Functions
pub mod Lines
pub mod Answers
pub mod Runners
