pub mod Audio
pub mod Levels
pub mod Lawfulness
