pub mod Order
pub mod Fitting
pub mod Found
