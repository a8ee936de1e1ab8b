pub mod Activity
pub mod Holdings
pub mod Inside
