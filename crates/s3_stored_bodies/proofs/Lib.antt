pub mod HeldLemmas
pub mod JoinLemmas
pub mod NumberLemmas
pub mod TreeLemmas
