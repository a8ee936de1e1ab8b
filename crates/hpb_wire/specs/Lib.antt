pub mod ByteMaps
pub mod Decimals
pub mod Numbers
pub mod Reasons
pub mod Requests
pub mod Responses
pub mod Words
