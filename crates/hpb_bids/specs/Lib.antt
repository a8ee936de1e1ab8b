pub mod View
pub mod Past
pub mod Inside
pub mod Entries
