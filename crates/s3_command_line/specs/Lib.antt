pub mod Command
pub mod Task
pub mod Words
