pub mod RollingLemmas
pub mod TextLemmas
