pub mod Deletions
pub mod Standing
pub mod Steps
