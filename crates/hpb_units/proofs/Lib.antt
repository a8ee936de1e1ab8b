pub mod Masks
pub mod Counting
pub mod Held
pub mod Numbers
pub mod Lowest
pub mod Summing
pub mod Won
