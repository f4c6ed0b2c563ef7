pub mod Lines
pub mod Printing
pub mod Reading
pub mod Script
