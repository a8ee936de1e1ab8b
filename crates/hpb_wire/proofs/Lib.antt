mod Digits
mod Eight
mod Cutting
mod Places
mod Canonical
mod Parts
mod Decimals
mod Overlaps
