pub mod Stages
pub mod Beginnings
pub mod Asking
pub mod Outcomes
pub mod Limits
