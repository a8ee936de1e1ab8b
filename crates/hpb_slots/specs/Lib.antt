pub mod Slots
pub mod Writes
pub mod Changes
pub mod Newest
pub mod Laws
pub mod Reading
