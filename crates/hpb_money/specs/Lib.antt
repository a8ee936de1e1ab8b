pub mod Shares
pub mod Inside
