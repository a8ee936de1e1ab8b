pub mod View
pub mod Inside
pub mod Along
pub mod Places
