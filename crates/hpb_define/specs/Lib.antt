pub mod Shape
pub mod Spelling
pub mod Text
pub mod Fault
pub mod Places
pub mod Reading
