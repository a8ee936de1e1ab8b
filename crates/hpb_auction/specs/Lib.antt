pub mod Verdicts
pub mod Inside
pub mod Rows
pub mod Acceptable
pub mod Saving
pub mod Formed
