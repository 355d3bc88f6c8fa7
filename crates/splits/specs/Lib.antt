pub mod Owning
pub mod Splitting
pub mod Regrowing
pub mod Sides
