pub mod MomentLemmas
pub mod StampLemmas
