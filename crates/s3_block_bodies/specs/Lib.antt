pub mod Header
pub mod Stored
pub mod Parts
pub mod Spares
pub mod Loading
