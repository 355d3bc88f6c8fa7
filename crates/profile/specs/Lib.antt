pub mod Columns
pub mod Piles
pub mod Times
pub mod Wave
