pub mod Opened
pub mod Sitting
pub mod Climbing
