pub mod Jobs
pub mod Keeping
pub mod Doubts
pub mod Serving
pub mod Program
pub mod Limits
pub mod ConsoleValue
