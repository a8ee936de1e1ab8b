mod Adding
mod Values
mod Rows
mod Recent
mod Later
mod Keeping
mod Rooms
