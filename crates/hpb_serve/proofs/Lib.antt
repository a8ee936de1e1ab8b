mod Reports
mod Seats
mod Turns
mod Written
mod Ills
pub mod Seen
pub mod Order
pub mod Steps
pub mod InFlight
pub mod Lasting
pub mod Posts
mod Crossing
