pub mod Frees
pub mod Onces
pub mod Runs
pub mod Sums
