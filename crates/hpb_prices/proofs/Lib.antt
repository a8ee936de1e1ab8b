pub mod LeastBid
pub mod Carrying
pub mod NoPrice
pub mod MaskedSums
pub mod LicenceSums
pub mod Climbing
pub mod Chosen
