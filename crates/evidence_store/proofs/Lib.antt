pub mod NodeLemmas
pub mod WalkLemmas
pub mod KeptLemmas
mod WorkedStores
