pub mod Publication
pub mod Trails
pub mod Rows
pub mod Contents
pub mod Views
pub mod Limits
