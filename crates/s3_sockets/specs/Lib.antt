pub mod Door
pub mod Network
