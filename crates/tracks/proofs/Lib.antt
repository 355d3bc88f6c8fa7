pub mod Counts
pub mod Pieces
pub mod Ranges
pub mod Few
pub mod Versions
