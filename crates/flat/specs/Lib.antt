pub mod States
pub mod Calls
pub mod Refusals
pub mod Questions
pub mod Steps
pub mod Force
pub mod Promises
