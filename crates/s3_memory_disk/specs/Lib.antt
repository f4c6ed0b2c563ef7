pub mod Chunks
pub mod MemoryDisk
