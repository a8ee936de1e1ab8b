pub mod Device
pub mod DeviceLaws
pub mod Running
pub mod Standing
pub mod Batches
