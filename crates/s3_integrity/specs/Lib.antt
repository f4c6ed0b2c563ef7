pub mod Algorithm
pub mod Hasher
pub mod Laws
pub mod Sum
