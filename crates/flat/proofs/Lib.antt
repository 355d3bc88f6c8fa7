pub mod Acceptance
pub mod Finding
pub mod Holds
pub mod Reading
pub mod Refusals
pub mod Runs
pub mod Soundness
