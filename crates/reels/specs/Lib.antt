pub mod Samples
pub mod Pcm
pub mod MuLaw
pub mod Gain
pub mod Joined
pub mod Piles
pub mod ByteReels
pub mod Keeps
