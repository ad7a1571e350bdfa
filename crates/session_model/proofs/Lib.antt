pub mod FitLemmas
pub mod AmountLemmas
