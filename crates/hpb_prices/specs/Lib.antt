pub mod View
pub mod Inside
pub mod Certificate
pub mod Shares
pub mod Along
