pub mod Attributes
pub mod Columns
pub mod Items
pub mod Laws
pub mod Numbers
pub mod Pairs
pub mod Reading
pub mod Tags
