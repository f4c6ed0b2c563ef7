pub mod Characters
pub mod Names
pub mod References
pub mod Texts
pub mod Told
pub mod Place
pub mod Reader
