pub mod Ramp
