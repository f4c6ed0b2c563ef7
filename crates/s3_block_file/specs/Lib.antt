pub mod Extent
pub mod Uses
pub mod Faults
pub mod BlockFile
