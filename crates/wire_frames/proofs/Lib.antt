pub mod FrameLemmas
pub mod FrontLemmas
pub mod PieceLemmas
