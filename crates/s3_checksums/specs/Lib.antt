pub mod Crc
pub mod Division
pub mod Hashers
pub mod Tables
