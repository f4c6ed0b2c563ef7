pub mod Place
pub mod Reading
pub mod Verdict
pub mod Sinks
pub mod Decoder
pub mod Laws
pub mod Finality
pub mod Body
