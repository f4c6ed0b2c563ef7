pub mod LineLemmas
pub mod DocumentLemmas
pub mod UnbrokenLemmas
pub mod ErrorLemmas
pub mod ReplyLemmas
