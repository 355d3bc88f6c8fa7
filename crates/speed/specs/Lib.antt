pub mod Piles
pub mod Summaries
