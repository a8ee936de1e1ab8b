pub mod Keys
pub mod Licences
pub mod Inside
pub mod Definition
pub mod Draft
pub mod Sound
pub mod Fault
