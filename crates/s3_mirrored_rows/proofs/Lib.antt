pub mod MirrorLemmas
