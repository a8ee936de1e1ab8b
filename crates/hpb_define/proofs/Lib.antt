mod Each
mod Lists
mod Nodes
mod Noting
mod Refusals
