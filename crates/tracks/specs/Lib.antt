pub mod Laying
pub mod Moving
