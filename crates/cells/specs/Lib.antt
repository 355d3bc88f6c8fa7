pub mod Cells
pub mod Reach
pub mod References
pub mod Moves
pub mod Lent
