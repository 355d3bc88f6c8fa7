pub mod Tempo
pub mod Lawfulness
