pub mod Marks
pub mod Slips
pub mod Taking
pub mod Gathering
