pub mod Tables
pub mod History
pub mod Masks
mod Entries
