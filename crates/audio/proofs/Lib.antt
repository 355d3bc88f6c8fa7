pub mod Louder
pub mod Sums
