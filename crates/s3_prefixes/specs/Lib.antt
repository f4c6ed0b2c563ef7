pub mod Items
pub mod Tellings
pub mod Text
