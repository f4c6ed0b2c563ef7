pub mod Faults
pub mod Mode
pub mod Reading
pub mod Run
pub mod Sign
