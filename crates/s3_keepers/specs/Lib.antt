pub mod Begun
pub mod Sound
