mod Files
mod Cutting
mod Doubting
mod Ends
mod Kept
mod Served
mod Taking
