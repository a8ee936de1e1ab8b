mod Agreeing
mod ImageReading
mod ImageStanding
mod Flawed
pub mod Leading
pub mod Behind
pub mod Heading
pub mod Planning
pub mod Faulting
pub mod Quietly
pub mod Reading
pub mod Doubting
