pub mod Faults
pub mod Opening
pub mod Blocks
