pub mod Rests
pub mod Sums
pub mod Works
