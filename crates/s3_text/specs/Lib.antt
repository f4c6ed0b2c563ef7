pub mod Characters
pub mod Cut
pub mod Digest
pub mod Digits
pub mod Lines
pub mod Order
pub mod Sorting
