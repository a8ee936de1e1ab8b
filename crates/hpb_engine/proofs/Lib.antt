pub mod Machines
pub mod Letters
pub mod Running
pub mod Regions
pub mod Asked
pub mod DeviceCalls
pub mod Cutting
mod Fitting
pub mod CommitTurns
pub mod CheckpointSteps
pub mod RetiredFrames
pub mod Standing
pub mod FreshStart
mod Finding
pub mod Moving
pub mod Counting
