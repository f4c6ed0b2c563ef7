pub mod Framed
pub mod Verdict
pub mod Data
pub mod Coded
pub mod Reader
pub mod Laws
