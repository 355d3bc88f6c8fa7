pub mod Roots
pub mod Puts
pub mod Ranges
pub mod Ones
