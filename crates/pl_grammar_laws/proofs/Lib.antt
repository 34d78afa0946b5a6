mod Certificates
mod Fitting
mod LookAhead
mod Ranks
mod Cuts
pub mod Walks
pub mod Told
mod Spine
mod Settled
mod Sound
mod Complete
mod Stops
mod Heads
mod Shapes
mod Openings
mod Forward
mod Reach
mod Levels
mod Prefix
mod Whole
mod Answered
